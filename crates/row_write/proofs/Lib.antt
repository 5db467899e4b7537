pub mod Counting
pub mod Forms
pub mod Laying
pub mod Packing
pub mod Proposal
