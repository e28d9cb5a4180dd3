pub mod Silences
