-- The ticks of an axis, as the code keeps them.
use Rattle.std.specs.Prelude.{◌≡◌}
use Rattle.cl_picture.specs.{declared.{window.Window.Window, axis.Axis.Axis}, Axis.{window_step, first_tick, tick_count}}

pub record IsAxis (window : Window) (axis : Axis) : Type 0 where
  pub step : axis.step ≡ window_step window
  pub first : axis.first ≡ first_tick window
  pub count : axis.count ≡ tick_count window
