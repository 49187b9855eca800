mod Entries
mod Owners
mod Tables
