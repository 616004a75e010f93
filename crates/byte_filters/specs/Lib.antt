pub mod ByteBounds
pub mod ByteArm
pub mod ByteArmLaws
pub mod TopLimit
