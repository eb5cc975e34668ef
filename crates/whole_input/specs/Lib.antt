-- What reads answer, and the input that they stand for: Readings.
pub mod Readings
