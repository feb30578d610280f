pub mod Words
pub mod Floats
pub mod NoRows
pub mod OneSurvey
pub mod Surveyings
pub mod Surveys
