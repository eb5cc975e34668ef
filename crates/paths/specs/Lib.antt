-- What the program prints: Printing (what is read and shown), Asking (what the call for the list is asked), Answering (its lines are the definition's).
pub mod Printing
pub mod Asking
pub mod Answering
