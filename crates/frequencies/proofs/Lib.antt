pub mod FrequencyFacts
pub mod FrequencyLaws
