pub mod Picking
pub mod PickingLaws
