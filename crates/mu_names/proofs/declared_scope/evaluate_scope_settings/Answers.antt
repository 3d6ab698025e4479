use Rattle.mu_names.proofs.Common
use Common.{[], ◌++◌, ◌+◌, ◌∙◌, ◌∷◌, ◌≡◌, ap, drop, Duplicate, expression, false, faults, get_or}
use Common.{if◌then◌else◌, is_set, least_of, map, set, Setting, setting, setting_number}
use Common.{settings_faults, settings_from, sym, take, true}
use Rattle.std.proofs.Math.ListN.{length-set}
use Rattle.mu_names.specs.Constant.{value}
use Rattle.mu_names.specs.Roles.{with_setting}
use Rattle.mu_names.proofs.LeastLemmas.{noted_two_of_three}
use Rattle.mu_names.proofs.Shapes.{settings_from_place, settings_so_far}
use Rattle.mu_names.proofs.TableLemmas.{written_more}
use Rattle.mu_names.proofs.declared_scope.evaluate_scope_settings.Goals as goal

pub loop-item-preserved : goal.loop-item-preserved
loop-item-preserved g c =
    let means = g.M.Meanings.meaning c.args.meanings.now in
    let items = c.args.items.now in
    let i = c.loop-item.item-index in
    let d = c.item-item.result in
    let one : Setting = setting d in
    let xs = map setting (take i items) in
    let so_far : map setting (take (i + 1) items) ≡ map setting (take i items) ++ one ∷ [] = settings_so_far items i d c.loop-item-test.true c.item-item.is in
    let rest : map setting (drop i items) ≡ one ∷ map setting (drop (i + 1) items) = settings_from_place items i d c.loop-item-test.true c.item-item.is in
    let place : c.declared_setting_number-place.result ≡ setting_number d.which = c.declared_setting_number-place.ensures.place in
    let again : get_or c.loop-item.written c.declared_setting_number-place.result false ≡ is_set (map setting (take i items)) d.which =
    ap (λ n. get_or c.loop-item.written n false) place ∙ c.loop-item.invariant.written d.which in
    record {
      six = length-set c.loop-item.written c.declared_setting_number-place.result true ∙ c.loop-item.invariant.six;
      written = λ w.
          ap (λ n. get_or (set c.loop-item.written n true) (setting_number w) false) place
          ∙ written_more c.loop-item.written (map setting (take i items)) one c.loop-item.invariant.six c.loop-item.invariant.written w
          ∙ ap (λ ys. is_set ys w) (sym so_far);
      settings = ap (λ s. settings_from means s (map setting (drop (i + 1) items))) (c.replace_declared_setting-settings.ensures ∙ ap (with_setting c.loop-item.settings d.which) c.evaluate_constant-value.ensures.value)
          ∙ sym (ap (settings_from means c.loop-item.settings) rest)
          ∙ c.loop-item.invariant.settings;
      faults = ap (λ ys. least_of c.evaluate_constant-value.new.least (settings_faults means ys (map setting (drop (i + 1) items)))) so_far
          ∙ noted_two_of_three _ _ _
          (if is_set (map setting (take i items)) d.which then Duplicate d.at ∷ [] else [])
          (faults means (expression d.value))
          (settings_faults means (map setting (take i items) ++ one ∷ []) (map setting (drop (i + 1) items)))
          (settings_faults means (map setting (take i items)) (map setting (drop i items)))
          (c.note_repeated_setting.ensures ∙ ap (λ t. least_of c.loop-item.least (if t then Duplicate d.at ∷ [] else [])) again)
          c.evaluate_constant-value.ensures.faults
          (ap (settings_faults means (map setting (take i items))) rest)
          ∙ c.loop-item.invariant.faults;
    }
