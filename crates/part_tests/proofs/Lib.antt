mod Hosting
mod Numbers
