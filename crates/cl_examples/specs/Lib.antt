pub mod Examples
pub mod WholeExample
pub mod ExampleModel
pub mod WholeModel
pub mod TimedExample
pub mod TimedModel
pub mod EditedModels
