pub mod NumeralsLaws
