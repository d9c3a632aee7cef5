mod Words
mod Signed
mod ObjectAgain
mod ContentAgain
mod Writing
mod Making
mod Signing
mod BuiltAgain
