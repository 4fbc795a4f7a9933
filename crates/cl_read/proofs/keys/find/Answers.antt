use Rattle.std.proofs.Common.{rules, ◌≡◌, map, length, sym, ap, ◌∙◌, arith}
use Rattle.std.proofs.lemmas.List.{length-set}
use Rattle.toml.specs.View.{members_view}
use Rattle.cl_model.specs.Reading.Checks.{has_only}
use Rattle.cl_read.specs.Inner.Fields.{data_of}
use Rattle.cl_read.proofs.FoundValues.{with_rest, none_found, refused, passes, found, at_end}
use Rattle.cl_read.proofs.keys.find.Goals as goal

pub loop-word-init : goal.loop-word-init
loop-word-init c =
    let all : c.into_iter-word-iterator.result ≡ c.args.table.now.entries = search rules in
    record {
      few = c.requires.few;
      only = ap (λ es. has_only c.args.keys.now (members_view es)) all;
      values =
          ap (λ es. with_rest c.args.keys.now (members_view es) (map data_of c.args.values.now)) all
          ∙ none_found c.args.keys.now (members_view c.args.table.now.entries) (length c.args.values.now) c.args.values.now c.requires.none c.requires.few;
    }

pub loop-word-preserved : goal.loop-word-preserved
loop-word-preserved c = record {
  few = omega (arith, c.loop-word.invariant.few, length-set c.loop-word.values c.in-Some-place_of.place c.first_of.result);
  only =
      sym (passes c.args.keys.now c.in-Some.word.now c.in-Some.value.now c.next.new.self c.as_str.result.now c.as_str.ensures.value c.in-Some-place_of.place (sym c.place_of.ensures ∙ c.in-Some-place_of.is))
      ∙ ap (λ es. has_only c.args.keys.now (members_view es)) (sym c.in-Some.ensures.steps) ∙ c.loop-word.invariant.only;
  values =
      found c.args.keys.now c.in-Some.word.now c.in-Some.value.now c.next.new.self c.as_str.result.now c.as_str.ensures.value c.in-Some-place_of.place (sym c.place_of.ensures ∙ c.in-Some-place_of.is)
      c.loop-word.values c.index-values-place.result c.first_of.result c.requires.apart c.loop-word.invariant.few c.index-values-place.is c.first_of.ensures
      ∙ ap (λ es. with_rest c.args.keys.now (members_view es) (map data_of c.loop-word.values)) (sym c.in-Some.ensures.steps) ∙ c.loop-word.invariant.values;
}

pub returns-in-None-place_of-clause-only : goal.returns-in-None-place_of-clause-only
returns-in-None-place_of-clause-only c =
    sym (sym c.loop-word.invariant.only ∙ ap (λ es. has_only c.args.keys.now (members_view es)) c.in-Some.ensures.steps
    ∙ refused c.args.keys.now c.in-Some.word.now c.in-Some.value.now c.next.new.self c.as_str.result.now c.as_str.ensures.value (sym c.place_of.ensures ∙ c.in-None-place_of.is))

pub returns-clause-values : goal.returns-clause-values
returns-clause-values c _ =
    sym (at_end c.args.keys.now c.loop-word.values c.loop-word.invariant.few)
    ∙ ap (λ es. with_rest c.args.keys.now (members_view es) (map data_of c.loop-word.values)) (sym c.in-None.ensures.steps.0) ∙ c.loop-word.invariant.values
