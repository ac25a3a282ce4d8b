pub mod SameJobs
