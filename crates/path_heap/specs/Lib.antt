pub mod First
pub mod Heap
