use Rattle.std.proofs.Common.{rules, ◌≡◌, ◌∙◌, ap, refl, sym, arith, Some, codes, is_some, string_bytes}
use Rattle.clap.proofs.WalkLemmas.{first_value-rows, raw_values-rows}
use Rattle.clap.specs.Matches.{found_of}
use Rattle.ovl_command_line.proofs.OptionLemmas.{flag_read, is_some-map, named_copy, option_if_read, option_read, some_copied, some_mapped}
use Rattle.ovl_command_line.proofs.parser.read.Goals as goal

pub unwrap-data_layers-requires : goal.unwrap-data_layers-requires
unwrap-data_layers-requires c =
    let read = option_read (codes "data-layers") 0 127 (found_of c.args.given.now) c.get_one.result c.requires.data_layers c.get_one.ensures.value in
    search rules

pub unwrap-requires : goal.unwrap-requires
unwrap-requires c =
    let read = option_read (codes "workers") 1 64 (found_of c.args.given.now) c.get_one-2.result c.requires.workers c.get_one-2.ensures.value in
    search rules

pub overflow_cast-result : goal.overflow_cast-result
overflow_cast-result c =
    let bottom = option_read (codes "data-layers") 0 127 (found_of c.args.given.now) c.get_one.result c.requires.data_layers c.get_one.ensures.value in
    let is : bottom.0 ≡ c.unwrap-data_layers.result = cc in
    omega (arith, is, bottom.4)

pub unwrap-requires-2 : goal.unwrap-requires-2
unwrap-requires-2 c =
    some_mapped _ c.get_strs.result c.requires.layers.0 (c.get_strs.ensures ∙ raw_values-rows (found_of c.args.given.now) (codes "layers") ∙ c.requires.layers.1)

pub returns-clause-sound : goal.returns-clause-sound
returns-clause-sound c =
    let bottom = option_read (codes "data-layers") 0 127 (found_of c.args.given.now) c.get_one.result c.requires.data_layers c.get_one.ensures.value in
    let workers = option_read (codes "workers") 1 64 (found_of c.args.given.now) c.get_one-2.result c.requires.workers c.get_one-2.ensures.value in
    let down = option_if_read (codes "down-to") c.args.what 127 (found_of c.args.given.now) c.get_one-3.result c.requires.down_to c.get_one-3.ensures.none c.get_one-3.ensures.value in
    let bottom_is : bottom.0 ≡ c.unwrap-data_layers.result = cc in
    let workers_is : workers.0 ≡ c.unwrap.result = cc in
    let texts = rw c.unwrap-2.ensures at c.get_strs.ensures in
    let files = c.requires.layers in
    record {
      some_worker = rw (← workers_is) workers.3;
      few_workers = rw (← workers_is) workers.4;
      few_data_layers = omega (arith, bottom_is, bottom.4);
      some_layer = some_copied string_bytes _ c.in_ok-copies.field-0.items c.unwrap-2.result.now files.0 c.in_ok-copies.ensures (texts ∙ raw_values-rows (found_of c.args.given.now) (codes "layers") ∙ files.1) files.2;
      blobs = is_some-map string_bytes c.in_ok-copy.field-0 ∙ ap is_some (c.in_ok-copy.ensures ∙ c.get_str.ensures ∙ first_value-rows (found_of c.args.given.now) (codes "blobs")) ∙ c.requires.blobs;
      out = is_some-map string_bytes c.in_ok-copy-2.field-0 ∙ ap is_some (c.in_ok-copy-2.ensures ∙ c.get_str-2.ensures ∙ first_value-rows (found_of c.args.given.now) (codes "out")) ∙ c.requires.out;
      down_to = down.1;
      any_size = λ given. c.requires.any_size (sym (flag_read (codes "any-size") (found_of c.args.given.now) c.get_flag.result c.requires.is_flag c.get_flag.ensures.none c.get_flag.ensures.value c.get_flag.ensures.other) ∙ given);
      out_named = named_copy c.in_ok-copy-2.field-0 _ (c.in_ok-copy-2.ensures ∙ c.get_str-2.ensures ∙ first_value-rows (found_of c.args.given.now) (codes "out")) c.requires.out_named;
    }

pub returns-clause-values : goal.returns-clause-values
returns-clause-values c =
    let bottom = option_read (codes "data-layers") 0 127 (found_of c.args.given.now) c.get_one.result c.requires.data_layers c.get_one.ensures.value in
    let workers = option_read (codes "workers") 1 64 (found_of c.args.given.now) c.get_one-2.result c.requires.workers c.get_one-2.ensures.value in
    let down = option_if_read (codes "down-to") c.args.what 127 (found_of c.args.given.now) c.get_one-3.result c.requires.down_to c.get_one-3.ensures.none c.get_one-3.ensures.value in
    let bottom_is : bottom.0 ≡ c.unwrap-data_layers.result = cc in
    let workers_is : workers.0 ≡ c.unwrap.result = cc in
    let texts = rw c.unwrap-2.ensures at c.get_strs.ensures in (
      refl,
      record {
        workers = workers.2 ∙ ap Some workers_is;
        data_layers = bottom.2 ∙ ap Some bottom_is;
        blobs = c.in_ok-copy.ensures ∙ c.get_str.ensures ∙ first_value-rows (found_of c.args.given.now) (codes "blobs");
        out = c.in_ok-copy-2.ensures ∙ c.get_str-2.ensures ∙ first_value-rows (found_of c.args.given.now) (codes "out");
        down_to = down.0;
        any_size = flag_read (codes "any-size") (found_of c.args.given.now) c.get_flag.result c.requires.is_flag c.get_flag.ensures.none c.get_flag.ensures.value c.get_flag.ensures.other;
        layers = sym (raw_values-rows (found_of c.args.given.now) (codes "layers")) ∙ sym texts ∙ ap Some (sym c.in_ok-copies.ensures);
      },
    )
