pub mod ReportLines
pub mod OneReport
pub mod SmallSums
pub mod SurveyPieces
pub mod OneSurvey
pub mod Pieces
