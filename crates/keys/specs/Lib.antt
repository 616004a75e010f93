pub mod Keyed
pub mod KeyedLaws
pub mod Keys
pub mod PlainKeys
pub mod PlainKeysLaws
