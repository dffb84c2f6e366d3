-- The set by which a contract `r ≡ f ..`, with f a nest of `cond` in the order of the code's tests, follows at each return: the
-- tests that led there say which case of f holds.
use borrow.Author.Tests.{eq-eqb, ne_eqb, lt-ltb, le-ltb, le-leb, lt-leb}

pub ruleset cases = (eq-eqb, ne_eqb, lt-ltb, le-ltb, le-leb, lt-leb)
