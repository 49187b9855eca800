mod Left
mod Obeying
mod Passing
