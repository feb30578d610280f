pub mod SurveyLines
