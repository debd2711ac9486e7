pub mod GatesLaws
