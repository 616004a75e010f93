pub mod BadWord
