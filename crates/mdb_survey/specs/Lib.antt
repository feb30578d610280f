pub mod Survey
pub mod SurveyJson
pub mod inner
