use Rattle.std.proofs.Common.{◌≡◌, ℕ, ◌+◌, ◌≤◌, List, ◌++◌, length, take, drop, length-append, length-drop, refl, sym, subst, ◌∙◌, arith, rules}
use Rattle.std.specs.Prelude.{slice_index}
use Rattle.std.proofs.lemmas.Grind.{common_steps}
use Rattle.std.proofs.lemmas.List.{get_or-replicate}
use Rattle.cl_exact.specs.Inner.Fronts.{IsGreatestTo}
use Rattle.cl_exact.proofs.FrontScans.{no_first_jobs}
use Rattle.cl_exact.proofs.front_scan.greatest_of_fronts.Goals as goal

pub loop-done-init : goal.loop-done-init
loop-done-init c = record {
  within = omega arith;
  ends = refl;
  starts = refl;
  room = refl;
  greatest = λ place below.
      subst (IsGreatestTo c.args.beats.now place c.args.first (c.args.first + 0))
      (sym (get_or-replicate 64 place 0 0 (omega (arith, below, c.requires.size, c.requires.beats.few))))
      (no_first_jobs c.args.beats.now place c.args.first);
}

-- a list whose first numbers were replaced by as many is as long as before
put_back : (block moments : List ℕ) (n count : ℕ) → length moments ≡ count → n ≤ count → length block ≡ n → length (block ++ drop n moments) ≡ count
put_back block moments n count many few as_many = omega (arith, many, few, as_many, length-append block (drop n moments), length-drop n moments)

pub loop-done-preserved : goal.loop-done-preserved
loop-done-preserved c =
    let taken : length (take c.min-block.result c.loop-done.ends) ≡ c.min-block.result = grind (arith, common_steps) in
    let started : length (take c.min-block.result c.loop-done.starts) ≡ c.min-block.result = grind (arith, common_steps) in
    let few : c.min-block.result ≤ 1024 = grind (arith, common_steps) in
    let all : c.args.first + c.loop-done.done + length (take c.min-block.result c.loop-done.ends) ≡ c.args.first + (c.loop-done.done + c.min-block.result) = omega (arith, taken) in
    record {
      within = search rules;
      ends = put_back c.raise_by_block.new.ends c.loop-done.ends c.min-block.result 1024 c.loop-done.invariant.ends few (c.raise_by_block.auto.ends ∙ taken);
      starts = put_back c.raise_by_block.new.starts c.loop-done.starts c.min-block.result 1024 c.loop-done.invariant.starts few (c.raise_by_block.auto.starts ∙ started);
      room = c.raise_by_block.auto.greatest ∙ c.loop-done.invariant.room;
      greatest = λ place below.
          subst (λ next. IsGreatestTo c.args.beats.now place c.args.first next (slice_index c.raise_by_block.new.greatest place)) all
          (c.raise_by_block.ensures c.args.first (omega arith) c.loop-done.invariant.greatest place below);
    }
