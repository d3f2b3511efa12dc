pub mod MonthLaws
pub mod CalendarLaws
