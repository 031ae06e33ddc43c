use Rattle.std.proofs.Common.{◌≡◌, ◌+◌, ◌*◌, ℕ, List, get_or, take, Some, sym, ◌∙◌, ap, arith}
use Rattle.std.specs.Prelude.{slice_get, slice_index}
use Rattle.std.proofs.lemmas.Option.{slice_get-get_or}
use Rattle.graph.specs.Cycle.{words_of_sensors}
use Rattle.graph.specs.Net.{ins_of}
use Rattle.graph.specs.declared.net.Plug.{Plug}
use Rattle.net_run.specs.Words.{plug_words}
use Rattle.job_inputs.specs.Look.{width_at}
use Rattle.job_inputs.proofs.Lines.{instance_within, cut_part, part_width, one_plug}
use Rattle.job_inputs.proofs.sensors.sensor_part.Goals as goal

pub slice_bounds-result-end : goal.slice_bounds-result-end
slice_bounds-result-end c =
    let net = c.args.net.now in let plug = c.index-as_slice-from.result in
    let at : plug ≡ get_or net.sensors c.args.sensor plug =
    c.index-as_slice-from.is ∙ ap (λ (xs : List Plug). get_or xs c.from.result plug) c.as_slice.ensures ∙ ap (λ i. get_or net.sensors i plug) c.from.ensures in
    let stands : slice_get net.sensors c.args.sensor ≡ Some plug = slice_get-get_or net.sensors c.args.sensor plug c.requires.sensor ∙ ap (λ (x : Plug). Some x) (sym at) in
    let width : c.from-width.result ≡ width_at net plug.task plug.port =
    c.from-width.ensures ∙ ap (λ (ws : List ℕ). slice_index ws c.from-2.result) c.ins_of.ensures ∙ ap (slice_index (ins_of net plug.task)) c.from-2.ensures in
    let start : slice_index c.args.starts.now c.from-3.result ≡ words_of_sensors net c.args.graph.now.cycle (take c.args.sensor net.sensors) =
    ap (slice_index c.args.starts.now) c.from-3.ensures ∙ c.requires.starts.each c.args.sensor c.requires.sensor in
    let within = instance_within net c.args.graph.now.cycle c.args.sensor c.args.instance plug c.requires.sensor at (c.requires.instance plug stands) in
    let times : c.args.instance * c.from-width.result ≡ c.args.instance * width_at net plug.task plug.port = ap (λ w. c.args.instance * w) width in
    omega (arith, within, start, width, times, c.requires.line)

pub returns-clause-words : goal.returns-clause-words
returns-clause-words c =
    let net = c.args.net.now in let plug = c.index-as_slice-from.result in
    let at : plug ≡ get_or net.sensors c.args.sensor plug =
    c.index-as_slice-from.is ∙ ap (λ (xs : List Plug). get_or xs c.from.result plug) c.as_slice.ensures ∙ ap (λ i. get_or net.sensors i plug) c.from.ensures in
    let stands : slice_get net.sensors c.args.sensor ≡ Some plug = slice_get-get_or net.sensors c.args.sensor plug c.requires.sensor ∙ ap (λ (x : Plug). Some x) (sym at) in
    let width : c.from-width.result ≡ width_at net plug.task plug.port =
    c.from-width.ensures ∙ ap (λ (ws : List ℕ). slice_index ws c.from-2.result) c.ins_of.ensures ∙ ap (slice_index (ins_of net plug.task)) c.from-2.ensures in
    let start : slice_index c.args.starts.now c.from-3.result ≡ words_of_sensors net c.args.graph.now.cycle (take c.args.sensor net.sensors) =
    ap (slice_index c.args.starts.now) c.from-3.ensures ∙ c.requires.starts.each c.args.sensor c.requires.sensor in
    cut_part (slice_index c.args.starts.now c.from-3.result) (words_of_sensors net c.args.graph.now.cycle (take c.args.sensor net.sensors)) c.args.instance c.from-width.result (width_at net plug.task plug.port) c.args.line.now start width
    ∙ sym (ap (plug_words net c.args.graph.now.cycle c.args.sensor c.args.instance c.args.line.now) stands)

pub returns-clause-width : goal.returns-clause-width
returns-clause-width c =
    let net = c.args.net.now in let plug = c.index-as_slice-from.result in
    let at : plug ≡ get_or net.sensors c.args.sensor plug =
    c.index-as_slice-from.is ∙ ap (λ (xs : List Plug). get_or xs c.from.result plug) c.as_slice.ensures ∙ ap (λ i. get_or net.sensors i plug) c.from.ensures in
    let stands : slice_get net.sensors c.args.sensor ≡ Some plug = slice_get-get_or net.sensors c.args.sensor plug c.requires.sensor ∙ ap (λ (x : Plug). Some x) (sym at) in
    let width : c.from-width.result ≡ width_at net plug.task plug.port =
    c.from-width.ensures ∙ ap (λ (ws : List ℕ). slice_index ws c.from-2.result) c.ins_of.ensures ∙ ap (slice_index (ins_of net plug.task)) c.from-2.ensures in
    let start : slice_index c.args.starts.now c.from-3.result ≡ words_of_sensors net c.args.graph.now.cycle (take c.args.sensor net.sensors) =
    ap (slice_index c.args.starts.now) c.from-3.ensures ∙ c.requires.starts.each c.args.sensor c.requires.sensor in
    let within = instance_within net c.args.graph.now.cycle c.args.sensor c.args.instance plug c.requires.sensor at (c.requires.instance plug stands) in
    let times : c.args.instance * c.from-width.result ≡ c.args.instance * width_at net plug.task plug.port = ap (λ w. c.args.instance * w) width in
    λ other e. part_width (slice_index c.args.starts.now c.from-3.result + c.args.instance * c.from-width.result) c.from-width.result c.args.line.now (omega (arith, within, start, width, times, c.requires.line))
    ∙ width ∙ ap (λ (x : Plug). width_at net x.task x.port) (one_plug plug other (sym stands ∙ e))
