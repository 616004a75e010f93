pub mod Small
pub mod RaisedFilter
pub mod RaisedFilterLaws
