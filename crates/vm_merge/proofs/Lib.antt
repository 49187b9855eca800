mod Behind
mod Heaps
mod Making
mod Moving
mod Turns
mod Uppers
