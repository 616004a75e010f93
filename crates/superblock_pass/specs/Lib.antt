pub mod SettingBy
