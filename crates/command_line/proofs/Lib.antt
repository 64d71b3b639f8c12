mod Faultless
mod WorkersPass
mod WorkersRead
