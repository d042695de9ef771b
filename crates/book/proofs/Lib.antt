pub mod ContentsLaws
pub mod DefaultsLaws
pub mod FrequencyLaws
pub mod RequirementLaws
pub mod SettingsLaws
pub mod UnitHeld
pub mod UnitLaws
