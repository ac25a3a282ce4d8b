pub mod Words
pub mod Tables
pub mod Numbers
pub mod Addresses
pub mod Fields
