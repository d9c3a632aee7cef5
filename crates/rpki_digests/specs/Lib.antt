pub mod Fips
