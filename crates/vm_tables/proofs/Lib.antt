mod Messaging
mod Once
mod Shipped
