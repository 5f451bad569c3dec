pub mod JsonTexts
pub mod JsonViews
