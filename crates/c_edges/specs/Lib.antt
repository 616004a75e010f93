pub mod EdgeEntry
