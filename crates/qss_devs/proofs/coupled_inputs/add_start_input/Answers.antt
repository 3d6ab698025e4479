-- One input more in one list.
use Rattle.qss_devs.proofs.Common
use Common.{[], ◌++◌, ◌∙◌, ◌∷◌, ◌≡◌, ap, FunctionInput, get_or, get_or-map, Global, List, map}
use Common.{map-set, set, sym, Vec}
use Rattle.qss_devs.proofs.coupled_inputs.add_start_input.Goals as goal

pub returns : goal.returns
returns c =
    let lists : List (Vec FunctionInput Global) = c.args.lists.now.items in
    let items : Vec FunctionInput Global → List FunctionInput = λ list. list.items in
    let row = c.args.row in
    let own : c.index_mut.result.now.items ≡ get_or (map items lists) row [] = ap items
    c.index_mut.ensures.value ∙ sym (get_or-map items lists row c.index_mut.result.now []
    c.requires) in
    map-set items lists row c.push.new.self
    ∙ ap (set (map items lists) row) (c.in_ok-push.ensures.items ∙ ap
    (λ xs. xs ++ c.args.input ∷ []) own)
