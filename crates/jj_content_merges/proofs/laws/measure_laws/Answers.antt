use Rattle.jj_content_merges.proofs.MeasureLaws.{merge_measure}
use Rattle.jj_content_merges.proofs.laws.measure_laws.Goals as goal

pub returns : goal.returns
returns c = merge_measure
