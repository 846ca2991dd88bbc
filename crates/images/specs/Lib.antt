pub mod Export
pub mod Import
pub mod Store
-- enum Step: Row, End
-- type Row: start u16, count u8
pub mod Inside
