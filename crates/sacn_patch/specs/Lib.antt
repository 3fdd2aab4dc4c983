pub mod PatchFaults
pub mod Flat
pub mod Parts
pub mod Patch
