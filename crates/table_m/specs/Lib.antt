pub mod TableM
