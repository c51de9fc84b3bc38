mod Expecting
mod Found
mod Answering
