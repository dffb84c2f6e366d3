-- Below has tests that some or so many numbers below a bound pass, and Counting more laws of how many; First the first number whose test
-- fails; Passing the numbers that pass.
pub mod Below
pub mod Counting
pub mod First
pub mod Passing
