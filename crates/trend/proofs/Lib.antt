pub mod SpansLaws
