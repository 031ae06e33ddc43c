-- The exit status of a refusal, and its line on the error output.
use Rattle.std.specs.Prelude.{ℕ, List, ◌++◌, codes, decimal, Option, None, Some, Result, Ok, Err}
use Rattle.mars_base.specs.declared.text.Span.{Span}
use Rattle.mc_tree.specs.declared.kind.Kind.{Kind}
use Rattle.refusals.specs.Words.{kind_text, section_text, project_kind_text}
use Rattle.refusals.specs.declared.fault.Fault.{Fault}
use Rattle.refusals.specs.declared.fault.Fault.TheVariants as fault
use Rattle.refusals.specs.declared.project.Place.{Place}
use Rattle.refusals.specs.declared.project.ProjectKind.{ProjectKind}
use Rattle.refusals.specs.declared.refusal.ImageBad.{ImageBad}
use Rattle.refusals.specs.declared.refusal.ImageBad.TheVariants as image
use Rattle.refusals.specs.declared.refusal.Refusal.{Refusal}
use Rattle.refusals.specs.declared.refusal.Refusal.TheVariants as refusal

abbrev pub status_of : Refusal → ℕ
status_of refusal.Memory = 1
status_of refusal.Usage = 2
status_of (refusal.Fault fault) = 3
status_of (refusal.Spent budget) = 4
status_of refusal.NoTable = 5
status_of (refusal.ReadFault name) = 6
status_of (refusal.WriteFault name) = 7
status_of (refusal.BadInput n) = 8
status_of (refusal.BadScript n) = 9
status_of (refusal.BadImage bad) = 10
status_of refusal.Broken = 11
status_of refusal.Lost = 12
status_of (refusal.TooLong name) = 13

abbrev pub status_of_result : Result (Unit {0}) Refusal → ℕ
status_of_result (Ok done) = 0
status_of_result (Err refused) = status_of refused

-- a line that names a file, or a stream
abbrev pub naming : List ℕ → List ℕ → List ℕ
naming front name = codes "mars: " ++ (front ++ (name ++ codes "\n"))

abbrev pub name_or : List ℕ → Option (List ℕ) → List ℕ
name_or stream None = stream
name_or stream (Some name) = name

-- a line of a file, without and with a number in it
abbrev pub of_file : List ℕ → List ℕ → List ℕ
of_file file back = codes "mars: " ++ (file ++ back)

abbrev pub at_file : List ℕ → List ℕ → ℕ → List ℕ → List ℕ
at_file file front n back = codes "mars: " ++ (file ++ (front ++ (decimal n ++ back)))

-- a line of a file in which a rule is broken, at a place of two parts
abbrev pub broken_line : List ℕ → List ℕ → List ℕ → List ℕ → List ℕ → List ℕ
broken_line file first between second kind = codes "mars: " ++ (file ++ (codes ": " ++ (first ++ (between ++ (second ++ (codes ": " ++ (kind ++ codes "\n")))))))

abbrev pub rule_line : List ℕ → Span → Kind → List ℕ
rule_line file span kind = broken_line file (decimal span.from) (codes "-") (decimal span.to) (kind_text kind)

abbrev pub project_line : List ℕ → Place → ProjectKind → List ℕ
project_line project place kind = broken_line project (section_text place.section) (codes " ") (decimal place.entry) (project_kind_text kind)

abbrev pub fault_line : Fault → List ℕ
fault_line (fault.BadByte file at) = at_file file (codes ": ") at (codes ": bad byte\n")
fault_line (fault.Syntax file token) = at_file file (codes ": syntax at token ") token (codes "\n")
fault_line (fault.Rule file span kind) = rule_line file span kind
fault_line (fault.NotBuilt file) = of_file file (codes ": not built\n")
fault_line (fault.CodeTooLong file n) = at_file file (codes ": code too long ") n (codes "\n")
fault_line (fault.NoPath file) = of_file file (codes ": no path\n")
fault_line (fault.MaxtTooLong file) = of_file file (codes ": maxt too long\n")
fault_line (fault.NotToml project) = of_file project (codes ": not toml\n")
fault_line (fault.Project project place kind) = project_line project place kind
fault_line (fault.Cycle project ticks) = at_file project (codes ": cycle of ") ticks (codes " ticks\n")
fault_line (fault.Jobs project n) = at_file project (codes ": ") n (codes " jobs\n")
fault_line (fault.SensorWords project n) = at_file project (codes ": ") n (codes " sensor words\n")

abbrev pub image_line : ImageBad → List ℕ
image_line (image.Byte offset) = codes "mars: bad image: byte " ++ (decimal offset ++ codes "\n")
image_line image.Net = codes "mars: bad image: net\n"
image_line (image.Code task) = codes "mars: bad image: code of task " ++ (decimal task ++ codes "\n")
image_line (image.Table rule) = codes "mars: bad image: table rule " ++ (decimal rule ++ codes "\n")

abbrev pub line_of : Refusal → List ℕ
line_of refusal.Memory = codes "mars: no memory\n"
line_of refusal.Usage = codes "mars: usage\n"
line_of (refusal.Fault fault) = fault_line fault
line_of (refusal.Spent budget) = codes "mars: budget " ++ (decimal budget ++ codes " spent\n")
line_of refusal.NoTable = codes "mars: no table\n"
line_of (refusal.ReadFault name) = naming (codes "read fault: ") (name_or (codes "input") name)
line_of (refusal.WriteFault name) = naming (codes "write fault: ") (name_or (codes "output") name)
line_of (refusal.BadInput n) = codes "mars: bad input line " ++ (decimal n ++ codes "\n")
line_of (refusal.BadScript n) = codes "mars: bad script line " ++ (decimal n ++ codes "\n")
line_of (refusal.BadImage bad) = image_line bad
line_of refusal.Broken = codes "mars: broken\n"
line_of refusal.Lost = codes "mars: lost\n"
line_of (refusal.TooLong name) = naming (codes "too long: ") (name_or (codes "image") name)
