pub mod SomePlace
