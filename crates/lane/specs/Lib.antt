pub mod LaneSamples
