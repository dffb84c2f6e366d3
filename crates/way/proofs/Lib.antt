-- Laws of the shortest way (specs/Way.antt, specs/Tight.antt).
pub mod Trails
pub mod WayLaws
pub mod OneWay
