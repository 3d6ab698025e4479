mod Decay
mod Flat
mod Instance
mod Lexing
mod Source
mod Text
