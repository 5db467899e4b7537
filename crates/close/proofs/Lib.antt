pub mod Finishing
