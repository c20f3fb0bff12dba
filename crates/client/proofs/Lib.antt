pub mod LayLaws
pub mod FunctionLaws
pub mod BuildLaws
pub mod CloseLaws
pub mod SaidLaws
pub mod HearLaws
pub mod StrictLaws
pub mod Unique
