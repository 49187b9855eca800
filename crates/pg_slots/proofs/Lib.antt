mod Choices
mod Fitting
mod Free
mod Giving
mod Marks
mod Tables
