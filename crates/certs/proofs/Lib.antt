pub mod Same
mod Said
mod Times
mod Signed
mod Access
mod Certs
mod Ext
mod Extensions
mod Items
mod Listed
mod Readable
mod ValuesRead
mod Whole
pub mod of_certs_basics
pub mod of_certs_key
