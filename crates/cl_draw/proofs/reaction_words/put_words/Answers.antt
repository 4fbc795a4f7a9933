use Rattle.std.proofs.Common.{[], ◌∷◌, ◌++◌, ap, ◌∙◌}
use Rattle.std.proofs.lemmas.Result.{IfOk-weaker}
use Rattle.cl_picture.specs.Pieces.{print}
use Rattle.cl_picture.proofs.Printing.{line_behind}
use Rattle.cl_draw.specs.{declared.stops.Stop.Stop, ChainLines.{first_stop, words_rest}}
use Rattle.cl_draw.proofs.reaction_words.put_words.Goals as goal

pub returns : goal.returns
returns c = IfOk-weaker c.put_words_rest.result _ _ (λ _ is. line_behind _ _ _ _ _ c.in_ok-put_words_place.ensures
    (is ∙ ap (λ (s : Stop). c.put_words_place.new.text ++ print (words_rest c.args.model.now c.args.look c.args.reaction.now s c.last_stop-last.result ∷ [])) c.first_stop-first.ensures.stop
    ∙ ap (λ (s : Stop). c.put_words_place.new.text ++ print (words_rest c.args.model.now c.args.look c.args.reaction.now (first_stop c.args.reaction.now) s ∷ [])) c.last_stop-last.ensures.stop)) c.put_words_rest.ensures
