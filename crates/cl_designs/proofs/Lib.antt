pub mod DesignLines
pub mod MarginLines
pub mod MarginTexts
pub mod OneText
pub mod SafeTexts
