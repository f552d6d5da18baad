mod Owed
mod Read
mod Text
mod Turns
